mod Ending
mod Images
mod Joining
mod Kept
mod Moments
mod Pieces
mod Recording
mod Scanning
