mod Outcomes
mod Tokens
mod Terms
mod Shapes
mod Conditions
mod Widening
mod Refusals
