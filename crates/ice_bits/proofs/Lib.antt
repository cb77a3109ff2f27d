mod Bytes
mod BitLaws
