use Rattle.std.proofs.Common.{◌∙◌, ◌||◌, Bool, Option, ap, bytes_eq, codes, if◌then◌else◌, map, sym, unwrap_or}
use Rattle.std.specs.List.{filter}
use Rattle.clap.specs.Words.{Text}
use Rattle.clap.proofs.WalkLemmas.{list_any-map}
use Rattle.patch_options.specs.Forms.{is_front}
use Rattle.patch_options.specs.Whole.{sole, whole_name}
use Rattle.patch_options.proofs.LongNames.{name_or}
use Rattle.patch_options.proofs.whole.whole_name.Goals as goal

pub returns-then-is_among : goal.returns-then-is_among
unfolding whole_name
returns-then-is_among c =
    let text = c.args.text.now in
    let names = map (λ n. n.now) c.args.names.now in
    let among = sym (list_any-map (λ name. bytes_eq name text) (λ n. n.now) c.args.names.now) ∙ (sym c.is_among.ensures ∙ c.if-is_among.true) in
    sym (ap (λ (b : Bool). if b || bytes_eq text (codes "strip") then text else unwrap_or (sole (filter (is_front text) names)) text) among)

pub returns-then-eq : goal.returns-then-eq
unfolding whole_name
returns-then-eq c =
    let text = c.args.text.now in
    let names = map (λ n. n.now) c.args.names.now in
    let among = sym (list_any-map (λ name. bytes_eq name text) (λ n. n.now) c.args.names.now) ∙ (sym c.is_among.ensures ∙ c.if-is_among.false) in
    sym (ap (λ (b : Bool). if b || bytes_eq text (codes "strip") then text else unwrap_or (sole (filter (is_front text) names)) text) among
    ∙ ap (λ (b : Bool). if b then text else unwrap_or (sole (filter (is_front text) names)) text) (sym c.eq.ensures ∙ c.if-eq.true))

pub returns : goal.returns
unfolding whole_name
returns c =
    let text = c.args.text.now in
    let names = map (λ n. n.now) c.args.names.now in
    let among = sym (list_any-map (λ name. bytes_eq name text) (λ n. n.now) c.args.names.now) ∙ (sym c.is_among.ensures ∙ c.if-is_among.false) in
    sym (ap (λ (b : Bool). if b || bytes_eq text (codes "strip") then text else unwrap_or (sole (filter (is_front text) names)) text) among
    ∙ (ap (λ (b : Bool). if b then text else unwrap_or (sole (filter (is_front text) names)) text) (sym c.eq.ensures ∙ c.if-eq.false)
    ∙ (ap (λ (o : Option Text). unwrap_or o text) (sym c.sole_name.ensures) ∙ name_or c.sole_name.result c.args.text c.unwrap_or.result c.unwrap_or.ensures)))
