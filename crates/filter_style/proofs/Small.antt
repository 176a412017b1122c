-- Small facts on lines, and on texts that are read.
use Rattle.std.proofs.Common.{◌≡◌, ℕ, ◌||◌, Bool, true, false, List, [], ◌∷◌, length, nat_lt, cond, Ok, refl, sym, subst, ap, ◌∙◌}
use Rattle.hunk_core.specs.Reading.{Fails}
use Rattle.hunk_core.specs.declared.BadKind.{BadKind}
use Rattle.hunk_core.specs.declared.fault.FormFault.{FormFault}
use Rattle.hunk_core.specs.declared.fault.FormFault.TheVariants.{Malformed}
use Rattle.read_file_patch.specs.PlainPatch.{PlainPatch}
use Rattle.unified_form.specs.declared.hunk_scan.OldRange.{OldRange}
use Rattle.read_patch_text.specs.Digests.{digests_of}
use Rattle.read_patch_text.specs.Regions.{Region, regions_of}
use Rattle.cli_tool_words.specs.PlainJobs.{PlainStyle}
use Rattle.filter_style.specs.Names.{begins}
use Rattle.filter_style.specs.Fronts.{is_last}
use Rattle.filter_style.specs.Styled.{filter_ways, is_plain, restyled, styled_by, styled_from}

pub last-one : (mark line : List ℕ) (all rest : List (List ℕ)) → all ≡ line ∷ rest → rest ≡ [] → begins mark line ≡ is_last mark all
last-one mark line all rest is none = rw (is, none) refl

pub last-more : (mark line next : List ℕ) (all rest more : List (List ℕ)) → all ≡ line ∷ rest → rest ≡ next ∷ more → false ≡ is_last mark all
last-more mark line next all rest more is some = rw (is, some) refl

pub last-none : (mark : List ℕ) (all : List (List ℕ)) → all ≡ [] → false ≡ is_last mark all
last-none mark all none = rw none refl

-- ---- texts

abbrev stays_if : PlainStyle → List ℕ → Bool → List ℕ
stays_if s text stays = cond stays text (styled_by s text (digests_of filter_ways text))

pub text-stays : (s : PlainStyle) (text : List ℕ) → (is_plain s || nat_lt 268435456 (length text)) ≡ true → text ≡ restyled s text
unfolding restyled
text-stays s text is = sym (ap (stays_if s text) is)

module _ (s : PlainStyle) (text : List ℕ) (goes : (is_plain s || nat_lt 268435456 (length text)) ≡ false) where
  is-styled : styled_by s text (digests_of filter_ways text) ≡ restyled s text
  unfolding restyled
  is-styled = sym (ap (stays_if s text) goes)

  pub read-styled : (x : List PlainPatch × List (List OldRange)) (regions : List Region) → digests_of filter_ways text ≡ Ok x → regions ≡ regions_of filter_ways text → styled_from s text 0 regions ≡ restyled s text
  read-styled x regions is are = ap (styled_from s text 0) are ∙ sym (ap (styled_by s text) is) ∙ is-styled

  pub unread-stays : (e : FormFault) (line : ℕ) (kind : BadKind) → e ≡ Malformed line kind → Fails e (digests_of filter_ways text) → text ≡ restyled s text
  unread-stays e line kind is fails = sym (ap (styled_by s text) (subst (λ x. Fails x (digests_of filter_ways text)) is fails)) ∙ is-styled
