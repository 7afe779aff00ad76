pub mod SmallCurve
