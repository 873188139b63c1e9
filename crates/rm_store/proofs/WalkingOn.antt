-- A walk that goes on over payloads that are not looked at.
use Rattle.rm_store.proofs.Common.{◌≡◌, ℕ, true, List, [], ◌∷◌, ◌++◌, append_assoc, sym, subst, append-nil, HasWalked}
use Rattle.rm_journal.specs.Walk.{WalkAt}
use Rattle.rm_store.specs.Reading.{WalkedOn}

-- it gave nothing yet
pub walked_none : (a : WalkAt) (bytes : List ℕ) → WalkedOn a a bytes
walked_none a bytes given walked = ([], subst (λ (l : List (List ℕ)). HasWalked a bytes l) (sym (append-nil given)) walked)

-- it gave one more
pub walked_more : (a b d : WalkAt) (bytes payload : List ℕ) → WalkedOn a b bytes → ((given : List (List ℕ)) → HasWalked b bytes given → HasWalked d bytes (given ++ payload ∷ [])) → WalkedOn a d bytes
walked_more a b d bytes payload on gives given walked =
    let there = on given walked in
    (there.0 ++ payload ∷ [], subst (λ (l : List (List ℕ)). HasWalked d bytes l) (append_assoc given there.0 (payload ∷ [])) (gives (given ++ there.0) there.1))

-- it came to its end
pub walked_all : (a b d : WalkAt) (bytes : List ℕ) → WalkedOn a b bytes → ((given : List (List ℕ)) → HasWalked b bytes given → d ≡ record b { is_done = true }) → WalkedOn a d bytes
walked_all a b d bytes on ends given walked =
    let there = on given walked in
    let is = ends (given ++ there.0) there.1 in
    (there.0, subst (λ (w : WalkAt). HasWalked w bytes (given ++ there.0)) (sym is) (record { sizes = there.1.sizes; are = there.1.are; place = there.1.place }))
