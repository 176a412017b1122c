-- A run of `filterdiff` with a form.
use Rattle.std.proofs.Common.{◌≡◌, inl, inr, ℕ, true, List, Option, Some, Result, Ok, Err, refl, sym, ◌∙◌, ap, subst}
use Rattle.hunk_core.specs.declared.Form.{Form}
use Rattle.outside.specs.Files.{Files}
use Rattle.outside.specs.FinderView.{FinderView, FinderPasses}
use Rattle.outside.specs.SinkView.{SinkView, SinkPasses, sink_passes_none}
use Rattle.outside.specs.Quiet.{IsQuiet}
use Rattle.cli_run_answers.specs.Input.{IsStandard}
use Rattle.cli_tool_words.specs.PlainJobs.{PlainFilterJob}
use Rattle.cli_tool_words.specs.PlainJobs.PlainToolJob.{filter_job}
use Rattle.format_convert.specs.declared.fault.ConvertFault.{ConvertFault}
use Rattle.format_convert.specs.declared.fault.ConvertFault.TheVariants as convert
use Rattle.cli_filter.specs.declared.form_fault.FormFault.{FormFault}
use Rattle.cli_filter.specs.declared.form_fault.FormFault.TheVariants.{Filter, NoContext, Unfit}
use Rattle.cli_filter.specs.Converting.{FormOutcome, Forms, IsConverted, Refuses, as_form, of_convert, styled_convert}
use Rattle.filter_whole_text.specs.Outcomes as outcomes
use Rattle.filter_whole_text.specs.Sifting.{HasTextCause}
use Rattle.cli_run_answers.specs.declared.why.Why.TheVariants as whys
use Rattle.cli_run_answers.specs.Answers.{is_own}
use Rattle.cli_run_answers.specs.Outcomes.{refused}
use Rattle.cli_run_answers.proofs.Opens.{opens_untouched, tidy_same}
use Rattle.cli_filter.specs.Causes.{HasCause}
use Rattle.cli_filter.specs.Command.{formed, in_form, of_form, why_formed, written}
use Rattle.cli_filter.specs.Worlds.{World}
use Rattle.cli_filter.specs.Carries.{Answers, ByOutcome, Carries, IsAsAtEntry}
use Rattle.cli_filter.proofs.Sifted.{Agrees, sifts_carry}
use Rattle.cli_filter.proofs.Whole.{carries_does, refused_so}

same-form : (o : outcomes.Outcome) → written o ≡ formed (as_form o)
same-form (Ok bytes) = refl
same-form (Err fault) = refl

module _ (form : Form) (j : PlainFilterJob) where
  comes : j.format ≡ Some form → (f : Files) (left : List ℕ) (o : FormOutcome) → styled_convert form j f left ≡ o → formed o ≡ in_form j.format j f left
  comes asked f left o is = sym (ap (λ (x : Option Form). in_form x j f left) asked ∙ ap formed is)

  forms : (v : FinderView) → j.format ≡ Some form → Agrees (filter_job j) j.input j.select (HasTextCause j.select.skip_binary) ⊥ (IsConverted (styled_convert form j)) v
  forms v asked = record {
    from = λ is. is;
    to = λ is. is;
    named = λ is. is;
    texts = λ e is. is;
    pattern = λ is. absurd is;
    outcome = λ f left o is. inl (same-form o ∙ comes asked f left (as_form o) is);
    uncut = λ why f u w. tt;
  }

  module _ (u w : World) (asked : j.format ≡ Some form) (finder : FinderPasses u.finder w.finder) (quiet : IsQuiet u.tree) (unread : (IsStandard j.input → ⊥) → w.source ≡ u.source) where
    -- a refusal for the form
    refuses_carry : (e : ConvertFault) → (of_form (of_convert e) ≡ whys.Done → ⊥) → is_own (of_form (of_convert e)) ≡ true → HasCause (of_form (of_convert e)) (Ok (filter_job j)) u w → Refuses form j (styled_convert form j) u.tree w.tree u.source w.source u.out w.out e → Carries (Ok (filter_job j)) u w (of_form (of_convert e))
    refuses_carry e never own cause x =
        let opens = opens_untouched x.untouched in
        let entry : IsAsAtEntry u w = record { told = opens.told; out = x.out; images = opens.images } in
        carries_does (of_form (of_convert e)) (record {
          tree = x.untouched.passes;
          finder = finder;
          source = x.source;
          sink = subst (λ (s : SinkView). SinkPasses u.out s) (sym x.out) (sink_passes_none u.out);
          cause = cause;
          untouched = λ early. entry;
          still = λ none. opens;
          quiet = λ is. absurd (never is);
          read = λ is. absurd (never is);
          unread = unread;
          taken = x.taken;
          answers = λ f left told. subst (λ b. ByOutcome (Ok (filter_job j)) u f left (Answers b (of_form (of_convert e)) f u w)) (sym own) (refused (of_form (of_convert e)), inl (comes asked f left (Err (of_convert e)) (x.answers f left (record { files = told.files; left = told.source }))), refused_so (Ok (filter_job j)) u w entry (of_form (of_convert e)) f);
          images = λ f left told c since. inl (opens.images c since);
          cut = λ broken f left told. tt;
          tidy = λ none. tidy_same u.tree w.tree x.untouched.told;
        })

    pub forms_carry : (r : Result (Unit {0}) FormFault) → Forms form j (styled_convert form j) u.tree w.tree u.source w.source u.out w.out r → Carries (Ok (filter_job j)) u w (why_formed r)
    forms_carry (Ok done) x = sifts_carry (filter_job j) j.input j.select (HasTextCause j.select.skip_binary) ⊥ (IsConverted (styled_convert form j)) u w (forms u.finder asked) finder quiet unread (Ok done) x
    forms_carry (Err (Filter fault)) x = sifts_carry (filter_job j) j.input j.select (HasTextCause j.select.skip_binary) ⊥ (IsConverted (styled_convert form j)) u w (forms u.finder asked) finder quiet unread (Err fault) x
    forms_carry (Err (NoContext line)) x = refuses_carry (convert.NoContext line) (λ is. absurd (cc)) refl (form, asked, x.cause) x
    forms_carry (Err (Unfit line)) x = refuses_carry (convert.Unfit line) (λ is. absurd (cc)) refl (inr (form, asked, x.cause)) x
