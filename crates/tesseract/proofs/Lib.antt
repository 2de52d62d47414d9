pub mod Reaching
pub mod Leading
pub mod Going
pub mod Turning
mod Nothing
mod Commands
mod Lacking
mod Jobs
mod Listing
mod Outputs
pub mod Telling
mod Keeping
mod Emptying
mod Standing
mod Between
mod Mined
mod Taking
mod Heading
mod SingleUpdates
mod TrialLines
mod Counted
