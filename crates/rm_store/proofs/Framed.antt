-- Payloads read as operations in one way at most.
use Rattle.rm_store.proofs.Common.{◌≡◌, ℕ, List, [], ◌∷◌, ◌++◌, map, refl, ◌∙◌, ap, subst, All, All-nil, All-cons, Op, IsOperation, records, frame, one_layout, IsAlike, folded}
use Rattle.std.proofs.lemmas.List.Elements.{All-head, All-tail}
use Rattle.rm_frame.proofs.Payloads.{frame_reads, one_reading}
use Rattle.rm_store.proofs.compaction.Ordering.{alike}
use Rattle.rm_store.specs.Content.{IsFrameOf, ReadsAs, HasContent, DeviceHolds, half_of}

pub reads_framed : (payloads : List (List ℕ)) (ops : List Op) → ReadsAs payloads ops → All IsOperation ops
reads_framed [] [] reads = All-nil IsOperation
reads_framed [] (op ∷ ops) reads = absurd reads
reads_framed (p ∷ payloads) [] reads = absurd reads
reads_framed (p ∷ payloads) (op ∷ ops) reads = All-cons IsOperation op ops reads.0.can (reads_framed payloads ops reads.1)

-- what is written of an operation is a frame of it
pub framed_now : (op : Op) → IsOperation op → IsFrameOf (frame op) op
framed_now op can = record { can = can; is = frame_reads op }

pub reads_frames : (ops : List Op) → All IsOperation ops → ReadsAs (map frame ops) ops
reads_frames [] all = tt
reads_frames (op ∷ ops) all = (framed_now op (All-head IsOperation op ops all), reads_frames ops (All-tail IsOperation op ops all))

pub reads_more : (payloads : List (List ℕ)) (ops : List Op) (payload : List ℕ) (op : Op) → ReadsAs payloads ops → IsFrameOf payload op → ReadsAs (payloads ++ payload ∷ []) (ops ++ op ∷ [])
reads_more [] [] payload op reads one = (one, tt)
reads_more [] (x ∷ ops) payload op reads one = absurd reads
reads_more (p ∷ payloads) [] payload op reads one = absurd reads
reads_more (p ∷ payloads) (x ∷ ops) payload op reads one = (reads.0, reads_more payloads ops payload op reads.1 one)

-- a payload is a frame of one operation at most
pub same_op : (payload : List ℕ) (a b : Op) → IsFrameOf payload a → IsFrameOf payload b → a ≡ b
same_op payload a b one two = one_reading payload a b one.can two.can one.is two.is

pub reads_one : (payloads : List (List ℕ)) (one other : List Op) → ReadsAs payloads one → ReadsAs payloads other → one ≡ other
reads_one [] [] [] a b = refl
reads_one [] [] (y ∷ other) a b = absurd b
reads_one [] (x ∷ one) other a b = absurd a
reads_one (p ∷ payloads) [] other a b = absurd a
reads_one (p ∷ payloads) (x ∷ one) [] a b = absurd b
reads_one (p ∷ payloads) (x ∷ one) (y ∷ other) a b = ap (λ (z : Op). z ∷ one) (same_op p x y a.0 b.0) ∙ ap (λ (l : List Op). y ∷ l) (reads_one payloads one other a.1 b.1)

-- an operation that reads behind others
pub record StandsBehind (ops front : List Op) (payload : List ℕ) : Type 0 where
  pub op : Op
  pub rest : List Op
  pub is : ops ≡ front ++ op ∷ rest
  pub framed : IsFrameOf payload op

pub stands_behind : (given more : List (List ℕ)) (payload : List ℕ) (ops front : List Op) → ReadsAs (given ++ payload ∷ more) ops → ReadsAs given front → StandsBehind ops front payload
stands_behind [] more payload [] [] a b = absurd a
stands_behind [] more payload (op ∷ ops) [] a b = record { op = op; rest = ops; is = refl; framed = a.0 }
stands_behind [] more payload ops (x ∷ front) a b = absurd b
stands_behind (p ∷ given) more payload [] front a b = absurd a
stands_behind (p ∷ given) more payload (op ∷ ops) [] a b = absurd b
stands_behind (p ∷ given) more payload (op ∷ ops) (x ∷ front) a b =
    let s = stands_behind given more payload ops front a.1 b.1 in
    record { op = s.op; rest = s.rest; is = ap (λ (z : Op). z ∷ ops) (same_op p op x a.0 b.0) ∙ ap (λ (l : List Op). x ∷ l) s.is; framed = s.framed }

pub one_content : (bytes : List ℕ) (one other : List Op) → HasContent bytes one → HasContent bytes other → one ≡ other
one_content bytes one other has also =
    let same = one_layout (half_of bytes) has.payloads also.payloads bytes has.layout also.layout in
    reads_one also.payloads one other (subst (λ (l : List (List ℕ)). ReadsAs l one) same has.reads) also.reads

-- the records of what a device holds and of its content
pub holds_alike : (bytes : List ℕ) (content ops : List Op) → DeviceHolds bytes ops → HasContent bytes content → IsAlike (records content) (records ops)
holds_alike bytes content ops holds has = alike content ops (ap folded (one_content bytes content holds.content has holds.has) ∙ holds.same)
