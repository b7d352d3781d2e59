pub mod Scans
pub mod Searching
pub mod ScanLaws
