-- The refusals, and what a call promises.
use Rattle.std.proofs.Common.{◌≡◌, ℕ, List, Option, None, Some, Result, Ok, Err, refl, sym, ap, ◌∙◌}
use Rattle.std.specs.Prelude.{option_map}
use Rattle.std.specs.Option.{option_or}
use Rattle.outside.specs.SinkView.{SinkView, sink_passes_none}
use Rattle.outside.specs.declared.Failed.{Failed}
use Rattle.outside.specs.Puts.{Puts}
use Rattle.hunk_core.specs.declared.Form.{Form}
use Rattle.read_file_patch.specs.PlainPatch.{PlainPatch, first_opening}
use Rattle.format_convert.specs.declared.fault.ConvertFault.{ConvertFault}
use Rattle.format_convert.specs.declared.fault.ConvertFault.TheVariants.{NoContext, Unfit, Write}
use Rattle.format_convert.specs.Converted.{Converts, HasConvertCause}
use Rattle.format_convert.specs.Refusals.{is_unfit, lacks_context, no_context, refusal, unfit}
use Rattle.format_convert.proofs.RowLemmas.{refusal-is}

module _ (form : Form) (ps : List PlainPatch) where
  both : (a b : Option ℕ) → first_opening (lacks_context form) ps ≡ a → first_opening (is_unfit form) ps ≡ b → refusal form ps ≡ option_or (option_map no_context a) (option_map unfit b)
  both a b first then_b =
      refusal-is form ps
      ∙ ap (λ (o : Option ℕ). option_or (option_map no_context o) (option_map unfit (first_opening (is_unfit form) ps))) first
      ∙ ap (λ (o : Option ℕ). option_or (option_map no_context a) (option_map unfit o)) then_b

  pub lacking : (line : ℕ) → Some line ≡ first_opening (lacks_context form) ps → Some (NoContext line) ≡ refusal form ps
  lacking line is = sym (both (Some line) (first_opening (is_unfit form) ps) (sym is) refl)

  pub unfitting : (line : ℕ) → None ≡ first_opening (lacks_context form) ps → Some line ≡ first_opening (is_unfit form) ps → Some (Unfit line) ≡ refusal form ps
  unfitting line none is = sym (both None (Some line) (sym none) (sym is))

  pub fitting : None ≡ first_opening (lacks_context form) ps → None ≡ first_opening (is_unfit form) ps → None ≡ refusal form ps
  fitting none fits = sym (both None None (sym none) (sym fits))

never-write : (a b : Option ℕ) → option_or (option_map no_context a) (option_map unfit b) ≡ Some Write → ⊥
never-write (Some line) b is = absurd cc
never-write None (Some line) is = absurd cc
never-write None None is = absurd cc

module _ {O : Type 0} (view : O → SinkView) (same : O → O → Type 0) (form : Form) (ps : List PlainPatch) (bytes : List ℕ) where
  refused-cause : (e : ConvertFault) (x : O) → Some e ≡ refusal form ps → HasConvertCause e view x x (refusal form ps) bytes
  refused-cause (NoContext line) x is = (sym is, refl)
  refused-cause (Unfit line) x is = (sym is, refl)
  refused-cause Write x is = absurd (never-write (first_opening (lacks_context form) ps) (first_opening (is_unfit form) ps) (sym (refusal-is form ps) ∙ sym is))

  pub converts-refused : (e : ConvertFault) (x : O) → same x x → Some e ≡ refusal form ps → Converts view same x x (Err e) (refusal form ps) bytes
  converts-refused e x stays is = record { passes = sink_passes_none (view x); rest = stays; accepted = tt; received = tt; cause = refused-cause e x is }

  pub converts-done : (x y : O) (u : Unit {0}) → None ≡ refusal form ps → Puts {E = Failed} view same x y (Ok u) bytes → Converts view same x y (Ok u) (refusal form ps) bytes
  converts-done x y u none p = record { passes = p.call.passes; rest = p.rest; accepted = sym none; received = p.received; cause = tt }

  pub converts-cut : (x y : O) (f : Failed) → None ≡ refusal form ps → Puts {R = Unit {0}} view same x y (Err f) bytes → Converts view same x y (Err Write) (refusal form ps) bytes
  converts-cut x y f none p = record { passes = p.call.passes; rest = p.rest; accepted = tt; received = tt; cause = (sym none, p.call.cause refl, p.failed) }
