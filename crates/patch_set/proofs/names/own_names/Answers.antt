use Rattle.std.proofs.Common.{◌≡◌, ◌⊎◌, inl, inr, Bool, true, false, ℕ, List, Option, refl, ap, ◌∙◌}
use Rattle.std.proofs.lemmas.Result.{IfOk-weaker}
use Rattle.std.specs.Option.{option_copied}
use Rattle.read_header_record.specs.declared.Action.{Action}
use Rattle.read_header_record.specs.declared.Action.TheVariants.{Plain, New, Deleted, Rename, Copy}
use Rattle.read_file_patch.specs.Actions.{is_moved}
use Rattle.read_file_patch.specs.PlainPatch.{PlainHeader, header_of}
use Rattle.patch_options.specs.PlainJob.{PlainOptions, plain_options}
use Rattle.read_file_patch.specs.Candidates.{candidates}
use Rattle.read_file_patch.specs.Moved.{moved_names}
use Rattle.patch_set.specs.Asked.{is_posix}
use Rattle.patch_set.specs.Named.{own_names}
use Rattle.patch_set.proofs.names.own_names.Goals as goal

stays : (a : Action) → (a ≡ Plain) ⊎ ((a ≡ New) ⊎ (a ≡ Deleted)) → is_moved a ≡ false
stays a (inl is) = ap is_moved is
stays a (inr (inl is)) = ap is_moved is
stays a (inr (inr is)) = ap is_moved is

moves : (a : Action) → (a ≡ Rename) ⊎ (a ≡ Copy) → is_moved a ≡ true
moves a (inl is) = ap is_moved is
moves a (inr is) = ap is_moved is

own-stayed : (o : PlainOptions) (h : PlainHeader) (old new index : Option (List ℕ)) (posix : Bool) → is_moved h.action ≡ false
    → old ≡ h.old_name → new ≡ h.new_name → index ≡ h.index → posix ≡ is_posix o → candidates o.strip old new index posix ≡ own_names o h
own-stayed o h old new index posix not-moved a b d e = rw (a, b, d, e, not-moved) refl

own-moved : (o : PlainOptions) (h : PlainHeader) (from to : Option (List ℕ)) → is_moved h.action ≡ true → from ≡ h.from → to ≡ h.to → moved_names o.strip from to ≡ own_names o h
own-moved o h from to moved a b = rw (a, b, moved) refl

pub returns-in-Plain : goal.returns-in-Plain
returns-in-Plain c =
    let o = plain_options c.args.options.now in
    let h = header_of c.args.text.now c.args.header.now in
    let old = option_copied c.bytes_in-in-Plain.result in
    let new = option_copied c.bytes_in-in-Plain-2.result in
    let index = option_copied c.bytes_in-in-Plain-3.result in
    record {
      names = IfOk-weaker c.candidates.result (λ names. names.items ≡ candidates o.strip old new index c.is_posix.result) (λ names. names.items ≡ own_names o h)
          (λ names is. is ∙ own-stayed o h old new index c.is_posix.result (stays c.args.header.now.action c.in-Plain.is) c.bytes_in-in-Plain.ensures c.bytes_in-in-Plain-2.ensures c.bytes_in-in-Plain-3.ensures c.is_posix.ensures) c.candidates.ensures;
    }

pub returns-in-Rename : goal.returns-in-Rename
returns-in-Rename c =
    let o = plain_options c.args.options.now in
    let h = header_of c.args.text.now c.args.header.now in
    let from = option_copied c.bytes_in.result in
    let to = option_copied c.bytes_in-in-Rename.result in
    record {
      names = IfOk-weaker c.moved_names.result (λ names. names.items ≡ moved_names o.strip from to) (λ names. names.items ≡ own_names o h)
          (λ names is. is ∙ own-moved o h from to (moves c.args.header.now.action c.in-Rename.is) c.bytes_in.ensures c.bytes_in-in-Rename.ensures) c.moved_names.ensures;
    }
