mod Joined
mod Rows
mod TextLines
