-- From the promises of the operations to the exported ones.
pub mod RingExports
pub mod ReportExports
