pub mod PrefixLemmas
