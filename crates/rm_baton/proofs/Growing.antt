-- Lemmas on beginnings of a log, and on logs that grow by entries that any pass may add.
use Rattle.std.proofs.Common.{List, [], ◌∷◌, ◌++◌, inl, inr, sym, ap, ◌∙◌, append_assoc, append-nil}
use mathlib.Core.List.{IsPrefix}
use Rattle.rm_types.specs.declared.entries.Entry.{Entry}
use Rattle.rm_baton.specs.Entries.{AddsAtMostOne, AddsCommon, AllCommon}
use Rattle.rm_baton.specs.Views.{AllBegin}

pub prefix_same : (log : List Entry) → IsPrefix log log
prefix_same log = ([], append-nil log)

pub prefix_more : (a b c : List Entry) → IsPrefix a b → IsPrefix b c → IsPrefix a c
prefix_more a b c p q = (p.0 ++ q.0, sym (append_assoc a p.0 q.0) ∙ ap (λ (l : List Entry). l ++ q.0) p.1 ∙ q.1)

-- a log begins the one that has one entry more at most
pub prefix_one : (a b : List Entry) → AddsAtMostOne a b → IsPrefix a b
prefix_one a b (inl same) = ([], append-nil a ∙ sym same)
prefix_one a b (inr more) = (more.0 ∷ [], sym more.1)

-- logs that begin one begin each that it begins
pub AllBegin-more : (logs : List (List Entry)) (a b : List Entry) → AllBegin logs a → IsPrefix a b → AllBegin logs b
AllBegin-more [] a b h p = tt
AllBegin-more (l ∷ logs) a b h p = (prefix_more l a b h.0 p, AllBegin-more logs a b h.1 p)

pub AllBegin-append : (logs more : List (List Entry)) (log : List Entry) → AllBegin logs log → AllBegin more log → AllBegin (logs ++ more) log
AllBegin-append [] more log h k = k
AllBegin-append (l ∷ logs) more log h k = (h.0, AllBegin-append logs more log h.1 k)

pub AllCommon-append : (es fs : List Entry) → AllCommon es → AllCommon fs → AllCommon (es ++ fs)
AllCommon-append [] fs h k = k
AllCommon-append (e ∷ es) fs h k = (h.0, AllCommon-append es fs h.1 k)

pub adds_none : (log : List Entry) → AddsCommon log log
adds_none log = record { added = []; grown = append-nil log; common = tt }

pub adds_more : (a b c : List Entry) → AddsCommon a b → AddsCommon b c → AddsCommon a c
adds_more a b c p q = record {
  added = p.added ++ q.added;
  grown = sym (append_assoc a p.added q.added) ∙ ap (λ (l : List Entry). l ++ q.added) p.grown ∙ q.grown;
  common = AllCommon-append p.added q.added p.common q.common;
}
