-- The laws of an inquiry. The other folders here prove the functions of src/. Assumes nothing.
pub mod InquiryTexts  -- a text at the start of a buffer
pub mod AccessLines  -- an access line, by the sizes of a machine or by its answer
pub mod Inquiries  -- what is written of an input, line by line
pub mod LongInputs  -- an input that is too long
