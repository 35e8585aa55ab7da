mod Texts
mod Doubled
