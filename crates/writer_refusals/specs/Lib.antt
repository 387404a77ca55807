pub mod WriterRefusals
