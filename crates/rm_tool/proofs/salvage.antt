mod FaultLemmas
mod FormLemmas
mod FrontLemmas
mod WriteLemmas
