-- The keys of an object, beside those of the map that holds it.
use Rattle.std.proofs.Common.{◌≡◌, ◌&&◌, ℕ, List, [], ◌∷◌, Bool, String, Global, string_bytes, refl, ap}
use Rattle.std.specs.List.{list_all}
use Rattle.std.specs.Map.{keys_of as map_keys}
use Rattle.serde_json.specs.View.{members_view}
use Rattle.serde_json.specs.declared.value.Value.{Value}
use Rattle.rm_cluster.specs.Readings.{keys_of}

pub list_all-keys_of : (test : List ℕ → Bool) (entries : List (String Global × Value)) → list_all test (keys_of (members_view entries)) ≡ list_all (λ key. test (string_bytes key)) (map_keys entries)
list_all-keys_of test [] = refl
list_all-keys_of test (entry ∷ entries) = ap (λ rest. test (string_bytes entry.0) && rest) (list_all-keys_of test entries)

pub ruleset key_tests = list_all-keys_of
