mod Numbered
mod Rows
