mod Fronts
mod Collecting
mod Scans
mod Views
mod Words
mod Reductions
mod Preparations
mod Building
