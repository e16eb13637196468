-- The laws of the library for other programs. The other folders here prove the functions of src/. Assumes nothing.
pub mod Storing  -- a text that is written piece by piece
pub mod Listed  -- a script that is fed piece by piece
pub mod ListingRoom  -- how much room a text takes at most
pub mod ReasonsStored  -- a script that is fed line by line, with its reasons
