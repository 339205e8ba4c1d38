mod AllPlans
mod Passes
