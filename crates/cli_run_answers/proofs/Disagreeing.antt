-- A file of which fewer bytes come than its size says.
use Rattle.std.proofs.Common.{◌≡◌, ℕ, ◌<◌, ◌≤◌, List, [], length, take, drop, min, Option, Some, None, unwrap_or, refl, sym, ap, ◌∙◌, arith}
use Rattle.std.proofs.lemmas.Option.{same_Some, none-some}
use Rattle.std.proofs.lemmas.List.{length-take}
use Rattle.std.specs.Option.{option_map}
use Rattle.std.specs.FinMap.{get}
use Rattle.outside.specs.Files.{Files, bytes_at}
use Rattle.outside.specs.TreeView.{TreeView}
use Rattle.outside.specs.Calls.{IsUntouched}

-- a told file gives all of its bytes
whole-read : (o : Option (List ℕ)) (size count : ℕ) (buf text : List ℕ) → Some size ≡ option_map length o → take count buf ≡ take (length text) (drop 0 (unwrap_or o [])) → length text ≡ size → size ≤ count
whole-read None size count buf text s b l = absurd (none-some size (sym s))
whole-read (Some bytes) size count buf text s b l =
    let stated : size ≡ length bytes = same_Some _ _ s in
    let came : min count (length buf) ≡ min (length text) (length bytes) = sym (length-take count buf) ∙ ap length b ∙ length-take (length text) bytes in
    omega (arith, stated, came, l)

-- so one that gives fewer isn't told
pub short-untold : (v w : TreeView) (name : List ℕ) (answer : Option ℕ) (size count : ℕ) (buf text : List ℕ) → IsUntouched v w → answer ≡ Some size
    → ((f : Files) → v.told ≡ Some f → answer ≡ option_map length (get f name))
    → ((f : Files) → w.told ≡ Some f → take count buf ≡ take (length text) (drop 0 (bytes_at f name)))
    → length text ≡ size → count < size → v.told ≡ None
short-untold v w name answer size count buf text un is s b l lt = elim v.told as (λ o. v.told ≡ o → v.told ≡ None) [
  | None ↦ λ none. none
  | Some f ↦ λ some.
      let all : size ≤ count = whole-read (get f name) size count buf text (sym is ∙ s f some) (b f (un.told ∙ some)) l in
      absurd (omega (arith, all, lt))
] refl
