mod Solvings
mod Answered
mod Closings
mod Floors
mod KeptOutcomes
mod NewCallers
mod Teams
mod Works
