-- One part put, and the line that says so: what each end of that comes to.
use Rattle.std.proofs.Common.{◌≡◌, inl, List, ℕ, [], ◌++◌, codes, Result, Ok, Err, refl, sym, subst}
use Rattle.std.specs.Result.{IsErrAnd}
use Rattle.std.specs.FinMap.{insert, remove}
use Rattle.outside.specs.Files.{temp_of}
use Rattle.outside.specs.TreeView.{TreeView, passes_none}
use Rattle.outside.specs.Calls.{Becomes, untouched_none}
use Rattle.outside.specs.SinkView.{SinkView, sink_passes_none}
use Rattle.outside.specs.Puts.{Puts}
use Rattle.outside.specs.Quiet.{IsQuiet, MakesEffect}
use Rattle.outside.specs.Quiet.Effect.{Put}
use Rattle.outside.proofs.Quiet.{works_none}
use Rattle.filter_whole_text.specs.declared.fault.FilterFault.{FilterFault}
use Rattle.filter_whole_text.specs.declared.fault.FilterFault.TheVariants as faults
use Rattle.filter_whole_text.specs.Parting.{IsMade, PutsPart}

module _ (name bytes : List ℕ) where
  -- before the first call memory ran out
  pub part-starved : (t : TreeView) (c : SinkView) → IsQuiet t → (s : Result (Unit {0}) FilterFault) → IsErrAnd s (λ x. x ≡ faults.Memory) → PutsPart (record { name = name; bytes = bytes }) t t c c s
  part-starved t c quiet (Ok x) is = absurd is
  part-starved t c quiet (Err x) is = subst (λ (y : FilterFault). PutsPart (record { name = name; bytes = bytes }) t t c c (Err y)) (sym is) (record {
    tree = passes_none t;
    sink = sink_passes_none c;
    since = λ f told at left. inl ((works_none t [] quiet).since f told at left);
    ok = tt;
    err = record { tree = untouched_none t; out = refl };
  })

  module _ {R E : Type 0} {t u : TreeView} where
    -- the tree failed
    pub part-failed : {x : E} (c : SinkView) → MakesEffect {R = R} {E = E} t u (Err x) (Put name bytes) → PutsPart (record { name = name; bytes = bytes }) t u c c (Err faults.Tree)
    part-failed c put = record {
      tree = put.run.passes;
      sink = sink_passes_none c;
      since = put.since;
      ok = tt;
      err = record { tells = put.either; out = refl; cause = put.run.cause refl };
    }

    module _ {x : R} (put : MakesEffect {R = R} {E = E} t u (Ok x) (Put name bytes)) (temp : List ℕ) (is : temp ≡ temp_of name) (becomes : Becomes t u (λ f. remove (insert f name bytes) temp)) where
      made : IsMade t u (Put name bytes)
      made = record { quiet = put.quiet; becomes = subst (λ (q : List ℕ). Becomes t u (λ f. remove (insert f name bytes) q)) is becomes }

      module _ {O Q F : Type 0} {view : O → SinkView} {same : O → O → Type 0} {a b : O} where
        pub part-said : {y : Q} (z : Unit {0}) → Puts {R = Q} {E = F} view same a b (Ok y) (name ++ codes "\n") → PutsPart (record { name = name; bytes = bytes }) t u (view a) (view b) (Ok z)
        part-said z line = record {
          tree = put.run.passes;
          sink = line.call.passes;
          since = put.since;
          ok = record { made = made; out = line.received };
          err = tt;
        }

        -- the sink failed
        pub part-unsaid : {y : F} → Puts {R = Q} {E = F} view same a b (Err y) (name ++ codes "\n") → PutsPart (record { name = name; bytes = bytes }) t u (view a) (view b) (Err faults.Write)
        part-unsaid line = record {
          tree = put.run.passes;
          sink = line.call.passes;
          since = put.since;
          ok = tt;
          err = record { made = made; out = line.failed; cause = line.call.cause refl };
        }
