mod Steps
mod TableLemmas
mod FunctionLemmas
mod ItemLemmas
mod StartLemmas
