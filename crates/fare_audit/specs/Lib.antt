pub mod Reports
pub mod Days
pub mod Found
pub mod Runs
pub mod Audits
