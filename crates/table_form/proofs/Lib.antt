mod Once
mod Chains
mod Cases
mod Held
mod OneTable
mod Worked
