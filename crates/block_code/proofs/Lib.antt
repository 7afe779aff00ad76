mod Made
mod Membership
mod Verdicts
mod Again
mod Differences
mod Pursuing
