mod GroupLemmas
mod SlotLemmas
