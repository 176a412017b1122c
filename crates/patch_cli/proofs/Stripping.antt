-- What is said in front of a run.
use Rattle.std.proofs.Common.{◌≡◌, Bool, true, false, not, ◌&&◌, [], if◌then◌else◌, Result, refl, sym, subst}
use Rattle.outside.specs.SinkView.{SinkView, SinkPasses, Receives, Writes}
use Rattle.patch_options.specs.PlainJob.{PlainOptions}
use Rattle.patch_cli.specs.Returns.{stripping_line, says_stripping, first_said}

-- it was written
pub record Begins (o : PlainOptions) (strips : Bool) (c m : SinkView) : Type 0 where
  pub first : Receives c m (first_said o strips)
  pub passes : SinkPasses c m
  pub still : says_stripping o strips ≡ false → m ≡ c

pub said_so : {R E : Type 0} {a b : SinkView} (r : Result R E) (o : PlainOptions) (strips : Bool) → says_stripping o strips ≡ true → Writes a b r stripping_line → Writes a b r (first_said o strips)
said_so {a = a} {b = b} r o strips says w = subst (λ (v : Bool). Writes a b r (if v then stripping_line else [])) (sym says) w

pub loud : (strips silent : Bool) → (strips && not silent) ≡ true → silent ≡ false
loud true true is = sym is
loud true false is = refl
loud false true is = sym is
loud false false is = refl
