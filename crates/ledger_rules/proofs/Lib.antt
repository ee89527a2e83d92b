pub mod Traces
pub mod Reports
