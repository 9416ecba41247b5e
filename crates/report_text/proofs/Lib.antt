-- What texts stored one behind the other make, and a whole report.
pub mod Texts
pub mod Reports
