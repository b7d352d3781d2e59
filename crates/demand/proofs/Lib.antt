-- A refused call changes nothing.
pub mod Refused
-- The bridge: the machine that the stores stand for, and each call on them as its step.
pub mod Reading
pub mod Pushing
pub mod Counting
pub mod Moving
pub mod Scanning
pub mod Bridging
pub mod Fitting
-- The rows as the layout of the forest, and the proof.
pub mod Compiling
pub mod Weighing
pub mod Turning
pub mod Theorem
-- By which numbers a call is refused, and what a C caller can rely on.
pub mod Numbers
pub mod MakingNumbers
pub mod Callers
