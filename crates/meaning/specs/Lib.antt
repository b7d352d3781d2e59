-- What is meant, in reading order: documents, trees and their layout, selectors and matching, elements and tests.
pub mod Lists
pub mod Document
pub mod Trees
pub mod Layout
pub mod Selectors
pub mod Match
pub mod Elements
pub mod Standard
pub mod Tests
-- What is demanded of a machine, and the machine that is proved to do it.
pub mod Calls
pub mod Limits
pub mod Carries
pub mod Machine
pub mod Demand
