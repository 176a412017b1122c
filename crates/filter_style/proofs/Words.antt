-- Words and file patches that are put down one after another.
use Rattle.std.proofs.Common.{◌≡◌, ℕ, ◌+◌, ◌<◌, ◌≤◌, List, ◌++◌, codes, length, map, drop, get_or, sym, ap, ◌∙◌, append_assoc}
use Rattle.std.proofs.lemmas.List.{append-nil, at_drop_all, at_drop_more}
use Rattle.read_file_patch.specs.declared.FilePatch.{FilePatch}
use Rattle.read_patch_text.specs.Regions.{region_of}
use Rattle.cli_tool_words.specs.PlainJobs.{PlainStyle}
use Rattle.filter_style.specs.Names.{turn_behind, word_at, words}
use Rattle.filter_style.specs.Styled.{region_text, styled_from, text_unless}
use Rattle.filter_style.specs.declared.names.NextName.{NextName}

-- ---- words

pub words-more : (s : PlainStyle) (parts : List (List ℕ)) (n m : ℕ) (part out more whole : List ℕ) (turn next : NextName) → n < length parts → part ≡ get_or parts n part
    → out ++ words s turn (drop n parts) ≡ whole → more ≡ out ++ (codes " " ++ word_at s turn part) → next ≡ turn_behind turn part
    → m ≡ n + 1 → more ++ words s next (drop m parts) ≡ whole
words-more s parts n m part out more whole turn next within at so_far puts is far =
    let w = get_or parts n part in
    let rest = drop (n + 1) parts in
    ap (λ k. more ++ words s next (drop k parts)) far
    ∙ ap (λ l. l ++ words s next rest) puts
    ∙ append_assoc out (codes " " ++ word_at s turn part) (words s next rest)
    ∙ ap (λ t. out ++ ((codes " " ++ word_at s turn part) ++ words s t rest)) is
    ∙ ap (λ x. out ++ ((codes " " ++ word_at s turn x) ++ words s (turn_behind turn x) rest)) at
    ∙ sym (at_drop_more (λ l. out ++ words s turn l) parts n part within)
    ∙ so_far

pub words-all : (s : PlainStyle) (parts : List (List ℕ)) (n : ℕ) (out whole : List ℕ) (turn : NextName) → length parts ≤ n → out ++ words s turn (drop n parts) ≡ whole → out ≡ whole
words-all s parts n out whole turn end so_far = sym (append-nil out) ∙ sym (at_drop_all (λ l. out ++ words s turn l) parts n end) ∙ so_far

-- ---- file patches

pub patches-more : (s : PlainStyle) (text : List ℕ) (ps : List FilePatch) (n : ℕ) (p : FilePatch) (out more whole : List ℕ) (at : ℕ) → n < length ps → p ≡ get_or ps n p
    → out ++ styled_from s text at (map region_of (drop n ps)) ≡ whole → more ≡ out ++ region_text s text (region_of p)
    → more ++ styled_from s text p.span.end (map region_of (drop (n + 1) ps)) ≡ whole
patches-more s text ps n p out more whole at within is so_far puts =
    let rest = drop (n + 1) ps in
    ap (λ l. l ++ styled_from s text p.span.end (map region_of rest)) puts
    ∙ append_assoc out (region_text s text (region_of p)) (styled_from s text p.span.end (map region_of rest))
    ∙ ap (λ (x : FilePatch). out ++ (region_text s text (region_of x) ++ styled_from s text x.span.end (map region_of rest))) is
    ∙ sym (at_drop_more (λ l. out ++ styled_from s text at (map region_of l)) ps n p within)
    ∙ so_far

pub patches-all : (s : PlainStyle) (text : List ℕ) (ps : List FilePatch) (n : ℕ) (out more whole : List ℕ) (at : ℕ) → length ps ≤ n
    → out ++ styled_from s text at (map region_of (drop n ps)) ≡ whole → more ≡ out ++ text_unless s.clean (drop at text) → more ≡ whole
patches-all s text ps n out more whole at end so_far puts = puts ∙ sym (at_drop_all (λ l. out ++ styled_from s text at (map region_of l)) ps n end) ∙ so_far
