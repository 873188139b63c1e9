-- Numbers as bytes, and back.
use Rattle.std.proofs.Common.{◌≡◌, ℕ, ◌^◌, ◌<◌, List, ◌++◌, length, get_or, take, drop, refl, sym, ap, ◌∙◌, arith, inl, inr}
use Rattle.std.specs.Int.{Width, w16, w32, w64, byte_len, from_be_bytes, to_be_bytes}
use Rattle.std.proofs.lemmas.Bool.{cases_lt}
use Rattle.std.proofs.lemmas.List.{take_at, drop_at, length-take, get_or-take, get_or_past}
use Rattle.std.proofs.lemmas.Nat.{be_bytes_2, be_bytes_4, be_bytes_8, from_be_bytes-to_be_bytes_2, from_be_bytes-to_be_bytes_4, from_be_bytes-to_be_bytes_8}

abbrev pub IsBytes : List ℕ → Type 0
IsBytes bytes = (i : ℕ) → get_or bytes i 0 < 256

pub IsBytes-take : (n : ℕ) (bytes : List ℕ) → IsBytes bytes → IsBytes (take n bytes)
IsBytes-take n bytes h i =
    elim (cases_lt i n) [
      | inl lt ↦ rw (get_or-take n bytes i 0 lt) (h i)
      | inr le ↦ rw (get_or_past (take n bytes) i 0 (omega (arith, length-take n bytes))) (omega arith)
    ]

-- so many bytes hold the numbers below the limit, and each in one way
pub record IsWide (w : Width) (limit : ℕ) : Type 0 where
  pub len : (n : ℕ) → length (to_be_bytes w n) ≡ byte_len w
  pub back : (bytes : List ℕ) → length bytes ≡ byte_len w → IsBytes bytes → to_be_bytes w (from_be_bytes w bytes) ≡ bytes
  pub again : (n : ℕ) → n < limit → from_be_bytes w (to_be_bytes w n) ≡ n

pub wide16 : IsWide w16 (2 ^ 16)
wide16 = record {
  len = λ n. refl;
  back = λ bytes len fits. be_bytes_2 bytes _ len fits refl;
  again = λ n lt. from_be_bytes-to_be_bytes_2 n lt;
}

pub wide32 : IsWide w32 (2 ^ 32)
wide32 = record {
  len = λ n. refl;
  back = λ bytes len fits. be_bytes_4 bytes _ len fits refl;
  again = λ n lt. from_be_bytes-to_be_bytes_4 n lt;
}

pub wide64 : IsWide w64 (2 ^ 64)
wide64 = record {
  len = λ n. refl;
  back = λ bytes len fits. be_bytes_8 bytes _ len fits refl;
  again = λ n lt. from_be_bytes-to_be_bytes_8 n lt;
}

-- a number that is written before other bytes is read again
pub again_before : (w : Width) (limit : ℕ) (wide : IsWide w limit) (n : ℕ) (rest : List ℕ) → n < limit → from_be_bytes w (take (byte_len w) (to_be_bytes w n ++ rest)) ≡ n
again_before w limit wide n rest lt = ap (from_be_bytes w) (take_at (to_be_bytes w n) rest (byte_len w) (wide.len n)) ∙ wide.again n lt

-- two numbers that begin the same bytes are one
pub number_alike : (w : Width) (limit : ℕ) (wide : IsWide w limit) (m n : ℕ) (x y : List ℕ) → m < limit → n < limit → to_be_bytes w m ++ x ≡ to_be_bytes w n ++ y → (m ≡ n) × (x ≡ y)
number_alike w limit wide m n x y lt_m lt_n e = (
  sym (again_before w limit wide m x lt_m) ∙ ap (λ (l : List ℕ). from_be_bytes w (take (byte_len w) l)) e ∙ again_before w limit wide n y lt_n,
  sym (drop_at (to_be_bytes w m) x (byte_len w) (wide.len m)) ∙ ap (drop (byte_len w)) e ∙ drop_at (to_be_bytes w n) y (byte_len w) (wide.len n),
)
