pub mod Scans
pub mod Lists
pub mod Bids
pub mod Chains
