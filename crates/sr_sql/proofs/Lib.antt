mod Quotes
mod Filtered
mod Lists
mod Shrinking
mod Spelled
mod Trees
mod Ruling
mod Whole
