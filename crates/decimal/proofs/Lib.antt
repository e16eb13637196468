-- The laws of decimal numbers, for other crates to cite: `round_trip`, `one-text`, `text-length` and `text-digits` are the theorems,
-- and the laws of `Room` are for callers of `decimal::write`. Assumes nothing.
pub mod Digits
pub mod DigitReading
pub mod DecimalRoundTrip
pub mod OneText
pub mod TextRoom
pub mod Writing
