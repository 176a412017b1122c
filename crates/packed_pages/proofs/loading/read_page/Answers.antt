use Rattle.std.proofs.Common.{◌≡◌, ◌≤◌, ◌+◌, ◌-◌, ◌*◌, ℕ, length, sym, arith, length-drop, drop, ap, ◌∙◌, ◌≢◌, List, refl}
use Rattle.page_pair.proofs.Windows.{none-unless, came-whole, page-length}
use Rattle.packed_pages.proofs.Spans.{page-there}
use Rattle.line_store.specs.declared.Half.{Half}
use Rattle.line_store.specs.declared.Half.TheVariants.{First, Second}
use Rattle.page_pair.specs.Pair.{Pair, page_of, with_page}
use Rattle.packed_pages.proofs.Sizes.{pages-fit}
use Rattle.packed_pages.proofs.loading.read_page.Goals as goal

-- a page that is lent leaves the size and the other page
page-size : (pair : Pair) (half : Half) (bytes : List ℕ) → (with_page pair half bytes).size ≡ pair.size
page-size pair First bytes = refl
page-size pair Second bytes = refl

page-other : (pair : Pair) (half : Half) (bytes : List ℕ) (h : Half) → h ≢ half → page_of (with_page pair half bytes) h ≡ page_of pair h
page-other pair First bytes First ne = absurd (ne refl)
page-other pair First bytes Second ne = refl
page-other pair Second bytes First ne = refl
page-other pair Second bytes Second ne = absurd (ne refl)

pub returns-in-Ok-2-clause-cause : goal.returns-in-Ok-2-clause-cause
returns-in-Ok-2-clause-cause g c = (
  λ e. c.if-got-want.false (sym e),
  none-unless _ (λ b told.
      let at : ℕ = 8 * c.args.layout.pages + c.args.page * c.args.layout.size in
      let whole : 8 * c.args.layout.pages + c.args.page * c.args.layout.size + c.args.layout.size ≤ length b = page-there c.args.layout b c.args.page (c.requires.packs b told) c.requires.there in
      let left : length (drop (8 * c.args.layout.pages + c.args.page * c.args.layout.size) b) ≡ length b - (8 * c.args.layout.pages + c.args.page * c.args.layout.size) = length-drop (8 * c.args.layout.pages + c.args.page * c.args.layout.size) b in
      let size : c.args.layout.size ≡ length c.page_mut.result.now = c.requires.size ∙ sym (page-length c.args.pair.now c.page_mut.ensures.pair c.args.half) ∙ ap length (sym c.page_mut.ensures.is) in
      c.if-got-want.false (came-whole c.in-Ok.got (length c.page_mut.result.now) c.read_at.new.buf (drop (8 * c.args.layout.pages + c.args.page * c.args.layout.size) b) (c.in-Ok.ensures.bytes b told) (omega arith) c.in-Ok.ensures.count ∙ sym size)),
)

pub returns-in-Ok-clause-size : goal.returns-in-Ok-clause-size
returns-in-Ok-clause-size g c = page-size c.args.pair.now c.args.half c.read_at.new.buf

pub returns-in-Ok-clause-other : goal.returns-in-Ok-clause-other
returns-in-Ok-clause-other g c = page-other c.args.pair.now c.args.half c.read_at.new.buf

pub returns-in-Ok-clause-passes : goal.returns-in-Ok-clause-passes
returns-in-Ok-clause-passes g c = c.read_at.ensures.call.passes

pub returns-in-Ok-clause-told : goal.returns-in-Ok-clause-told
returns-in-Ok-clause-told g c = c.read_at.ensures.same

pub returns-in-Ok-clause-cause : goal.returns-in-Ok-clause-cause
returns-in-Ok-clause-cause g c = tt

pub returns-in-Ok-2-clause-size : goal.returns-in-Ok-2-clause-size
returns-in-Ok-2-clause-size g c = page-size c.args.pair.now c.args.half c.read_at.new.buf

pub returns-in-Ok-2-clause-other : goal.returns-in-Ok-2-clause-other
returns-in-Ok-2-clause-other g c = page-other c.args.pair.now c.args.half c.read_at.new.buf

pub returns-in-Ok-2-clause-passes : goal.returns-in-Ok-2-clause-passes
returns-in-Ok-2-clause-passes g c = c.read_at.ensures.call.passes

pub returns-in-Ok-2-clause-told : goal.returns-in-Ok-2-clause-told
returns-in-Ok-2-clause-told g c = c.read_at.ensures.same

pub returns-in-Ok-2-clause-page : goal.returns-in-Ok-2-clause-page
returns-in-Ok-2-clause-page g c = tt

pub returns-in-Err-clause-size : goal.returns-in-Err-clause-size
returns-in-Err-clause-size g c = page-size c.args.pair.now c.args.half c.read_at.new.buf

pub returns-in-Err-clause-other : goal.returns-in-Err-clause-other
returns-in-Err-clause-other g c = page-other c.args.pair.now c.args.half c.read_at.new.buf

pub returns-in-Err-clause-passes : goal.returns-in-Err-clause-passes
returns-in-Err-clause-passes g c = c.read_at.ensures.call.passes

pub returns-in-Err-clause-told : goal.returns-in-Err-clause-told
returns-in-Err-clause-told g c = c.read_at.ensures.same

pub returns-in-Err-clause-page : goal.returns-in-Err-clause-page
returns-in-Err-clause-page g c = tt

pub overflow_add-layout : goal.overflow_add-layout
overflow_add-layout g c = omega (arith, c.requires.there, c.requires.layout.pages, c.requires.layout.few, pages-fit c.args.layout c.args.page c.requires.layout (omega (arith, c.requires.there)))

pub overflow_mul-page : goal.overflow_mul-page
overflow_mul-page g c = omega (arith, pages-fit c.args.layout c.args.page c.requires.layout (omega (arith, c.requires.there)))
