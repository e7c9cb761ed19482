mod Alone
mod Asked
mod Beginning
mod Outcomes
