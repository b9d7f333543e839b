mod Histories
mod Views
mod Kept
mod Turns
mod Numbers
mod Joins
