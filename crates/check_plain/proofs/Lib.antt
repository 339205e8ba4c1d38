mod PlainFile
mod PlainLaw
mod PlainLines
mod PlainNumbers
mod PlainOrder
mod PlainParts
mod PlainRows
