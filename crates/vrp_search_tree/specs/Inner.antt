-- What inner contracts alone cite: nobody has to believe it.
pub mod LastOffer
pub mod Pass
pub mod Tallied
pub mod Under
