-- Cited only by inner contracts; no reader has to believe it.
pub mod Conclusion
