mod Copies
mod Fits
mod Frames
mod Functions
mod Means
mod Regions
