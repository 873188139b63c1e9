-- What an absorption takes, one container after the other.
use Rattle.rm_laws.proofs.Common.{◌≡◌, List, [], ◌∷◌, ◌++◌, Bool, true, false, ◌&&◌, not, if◌then◌else◌, Option, None, Some, fold, refl, not-true, and_parts, Held, Settings, NodeState, Scene, lives_elsewhere, taken_of, is_held}
use Rattle.rm_types.specs.Resources.{fits}
use Rattle.rm_model.specs.Attempts.{is_wanted}
use Rattle.rm_model.specs.Containers.{is_pending}
use Rattle.rm_model.specs.Absorbing.{as_counted, left_beside, may_take, with_counted}
use Rattle.rm_laws.proofs.Lists.{Each, each-append}

-- a container that may be taken: what its test says
pub record IsFree (settings : Settings) (m : Scene) (node : NodeState) (taken : List Held) (held : Held) : Type 0 where
  pub not_pending : is_pending settings m held.id ≡ false
  pub new : is_held taken held.id ≡ false
  pub wanted : is_wanted m held.id ≡ true
  pub home : lives_elsewhere m.life.book node.name held.id ≡ false
  pub fit : fits held.size (left_beside node taken) ≡ true

module _ (settings : Settings) (m : Scene) (node : NodeState) where
  is_free : (taken : List Held) (held : Held) → may_take settings m node taken held ≡ true → IsFree settings m node taken held
  is_free taken held may =
      let o = and_parts (not (is_pending settings m held.id)) (not (is_held taken held.id) && (is_wanted m held.id && (not (lives_elsewhere m.life.book node.name held.id) && fits held.size (left_beside node taken)))) may in
      let a = and_parts (not (is_held taken held.id)) (is_wanted m held.id && (not (lives_elsewhere m.life.book node.name held.id) && fits held.size (left_beside node taken))) o.1 in
      let b = and_parts (is_wanted m held.id) (not (lives_elsewhere m.life.book node.name held.id) && fits held.size (left_beside node taken)) a.1 in
      let c = and_parts (not (lives_elsewhere m.life.book node.name held.id)) (fits held.size (left_beside node taken)) b.1 in
      record { not_pending = not-true (is_pending settings m held.id) o.0; new = not-true (is_held taken held.id) a.0; wanted = b.0; home = not-true (lives_elsewhere m.life.book node.name held.id) c.0; fit = c.1 }

  -- what holds of nothing, and stays where one that counts and is free is taken, holds of what is taken
  pub all_taken : (P : List Held → Type 0) → P [] → ((taken : List Held) (held one : Held) → as_counted m node held ≡ Some one → IsFree settings m node taken one → P taken → P (taken ++ one ∷ []))
      → P (taken_of settings m node)
  all_taken P none more = go node.last.running [] none
    where
      counted : (taken : List Held) (held : Held) (o : Option Held) → as_counted m node held ≡ o → P taken → P (with_counted settings m node taken o)
      counted taken held None e h = h
      counted taken held (Some one) e h = by_test (may_take settings m node taken one) refl
        where
          by_test : (b : Bool) → may_take settings m node taken one ≡ b → P (if b then taken ++ one ∷ [] else taken)
          by_test false x = h
          by_test true x = more taken held one e (is_free taken one x) h

      go : (running taken : List Held) → P taken → P (fold (λ taken held. with_counted settings m node taken (as_counted m node held)) taken running)
      go [] taken h = h
      go (held ∷ running) taken h = go running (with_counted settings m node taken (as_counted m node held)) (counted taken held (as_counted m node held) refl h)

  -- what holds of each that is free holds of each that is taken
  pub each_taken : (P : Held → Type 0) → ((taken : List Held) (one : Held) → IsFree settings m node taken one → P one) → Each P (taken_of settings m node)
  each_taken P free = all_taken (Each P) tt (λ taken held one counted f each. each-append P taken (one ∷ []) each (free taken one f, tt))
