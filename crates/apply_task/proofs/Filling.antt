-- A temporary that a sink has filled.
use Rattle.std.proofs.Common.{◌≡◌, ℕ, List, [], Bool, true, false, Option, Some, sym, ◌∙◌, ap, subst, arith}
use Rattle.std.specs.Option.{option_and_then}
use Rattle.std.specs.FinMap.{get}
use Rattle.outside.specs.Files.{Files, is_temp}
use Rattle.outside.specs.TreeView.{TreeView, Passes}
use Rattle.outside.specs.SinkView.{SinkView, Receives}
use Rattle.outside.specs.Quiet.{IsQuiet, WorksOn, Holds}
use Rattle.outside.proofs.Names.{lasting-both}
use Rattle.outside.proofs.Views.{told_back}
use Rattle.outside.proofs.Quiet.{lasting-only, works_none, works_both}
use Rattle.replace_file.specs.TempSink.{sink_view, SameAround}

-- a sink over a temporary of a quiet tree works on that alone
pub around_works : (u w : TreeView) (temp : List ℕ) → is_temp temp ≡ true → IsQuiet u → SameAround u w temp → WorksOn u w temp
around_works u w temp is quiet around =
    let rest = around.rest in
    record {
      passes = rest.passes;
      quiet = record {
        each = λ g c now left.
            let was = told_back g rest.passes now in
            let old = rest.now was.0 c was.1 left in
            record { at = λ q l. old.2.at q l ∙ (quiet.each was.0 old.0 was.1 old.1).at q l ∙ sym ((lasting-only is (rest.others was.0 g was.1 now)).at q l) };
      };
      others = rest.others;
      seals = rest.seals;
      since = λ f told c left.
          let old = rest.since f c u.moment told (omega arith) left in
          lasting-both ((works_none u temp quiet).since f told old.0 old.1) old.2;
    }

-- what a sink over an empty temporary received stands in it
pub received_holds : (u w : TreeView) (m n bytes : List ℕ) (silent : Bool) (v : SinkView) → Passes u w → silent ≡ false → n ≡ m → Holds u m [] → Receives (sink_view u m silent) v bytes → ((b : List ℕ) → v.told ≡ Some b → Holds w n b) → Holds w m bytes
received_holds u w m n bytes silent v passes telling name empty received stands g now =
    let was = told_back g passes now in
    let told : (sink_view u m silent).told ≡ Some [] = ap (λ b. (sink_view u m b).told) telling ∙ ap (λ (o : Option Files). option_and_then (λ (f : Files). get f m) o) was.1 ∙ empty was.0 was.1 in
    subst (λ x. Holds w x bytes) name (stands bytes (received [] told)) g now

-- the same of equal trees and names
pub around_is : {X : Type 0} (view : X → TreeView) (s t u w : X) (n m : List ℕ) → u ≡ s → w ≡ t → m ≡ n → SameAround (view u) (view w) m → SameAround (view s) (view t) n
around_is view s t u w n m first last name around = subst (λ x. SameAround (view s) (view t) x) name (subst (λ x. SameAround (view s) (view x) m) last (subst (λ x. SameAround (view x) (view w) m) first around))

pub holds_is : {X : Type 0} (view : X → TreeView) (s t : X) (m n b : List ℕ) → s ≡ t → m ≡ n → Holds (view s) m b → Holds (view t) n b
holds_is view s t m n b tree name holds = subst (λ x. Holds (view t) x b) name (subst (λ x. Holds (view x) m b) tree holds)

-- and then on the same tree by another name
pub works_then : {X : Type 0} (view : X → TreeView) (s t w v : X) (n m : List ℕ) → is_temp n ≡ true → t ≡ w → m ≡ n → WorksOn (view s) (view t) n → WorksOn (view w) (view v) m → WorksOn (view s) (view v) n
works_then view s t w v n m is tree name first second =
    works_both (view s) (view t) (view v) n is first (subst (λ x. WorksOn (view x) (view v) n) (sym tree) (subst (λ x. WorksOn (view w) (view v) x) name second))
