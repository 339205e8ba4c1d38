pub mod ReportLemmas
pub mod WrittenParts
