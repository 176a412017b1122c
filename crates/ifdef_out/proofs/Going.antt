-- A walk over blocks: what was written, and what is left.
use Rattle.std.proofs.Common.{◌≡◌, ℕ, ◌+◌, ◌≤◌, List, [], ◌++◌, length, false, true, refl, sym, ap, subst, ◌∙◌, arith}
use Rattle.outside.specs.SinkView.{SinkView, Receives, ReceivesPart}
use Rattle.hunk_apply.specs.declared.put.Tail.{Tail}
use Rattle.hunk_apply.specs.Splice.{Edit}
use Rattle.hunk_apply.specs.Written.{Wrote, lines_between, join_behind}
use Rattle.hunk_apply.proofs.WrittenLemmas.{wrote-none, wrote-both, wrote-same, wrote-whole, part-after, part-same, part-whole}
use Rattle.ifdef_out.specs.Tagged.{closed, tagged_behind, texts, ifdef_text}
use Rattle.ifdef_out.specs.Chain.{block_end, block_added, behind_block, AreInOrder}
use Rattle.ifdef_out.proofs.WholeLemmas.{nothing-left}
use Rattle.ifdef_out.proofs.TaggedLemmas.{kept-to, tagged-none, rest_of}
use Rattle.ifdef_out.proofs.BlockLemmas.{Ahead}

abbrev pub first : Tail
first = record { is_open = false; is_empty = true }

pub record Going (name : List ℕ) (lines : List (List ℕ)) (all : List Edit) (u v : SinkView) (now : Tail) (left : List Edit) (next : ℕ) : Type 0 where
  pub low : 1 ≤ next
  pub high : next ≤ length lines + 1
  pub order : AreInOrder (length lines) next left
  pub written : Wrote u v first now (rest_of name lines all 1) (rest_of name lines left next)

pub going-none : (name : List ℕ) (lines : List (List ℕ)) (all : List Edit) (v : SinkView) (left : List Edit) → left ≡ all → AreInOrder (length lines) 1 all → Going name lines all v v first left 1
going-none name lines all v left is h = subst (λ es. Going name lines all v v first es 1) (sym is) (record {
  low = omega arith;
  high = omega arith;
  order = h;
  written = wrote-none v first (rest_of name lines all 1);
})

module _ (name : List ℕ) (lines : List (List ℕ)) (all : List Edit) (u v : SinkView) (now : Tail) (left : List Edit) (next : ℕ) (going : Going name lines all u v now left next) (e : Edit) (a : Ahead name lines left next e) where
  abbrev pub own : List (List ℕ)
  own = texts (closed name (lines_between lines e.at (block_end e.at left)) (block_added e.at left))

  -- what follows the block
  abbrev pub after : List (List ℕ)
  after = rest_of name lines (behind_block e.at left) (block_end e.at left)

  -- a failure in front of the block
  pub part-copied : (w : SinkView) → ReceivesPart v w (join_behind now.is_open (lines_between lines next e.at ++ (own ++ after))) → ReceivesPart u w (ifdef_text name lines all)
  part-copied w h =
      part-whole u w false (rest_of name lines all 1) refl
      (part-after u v w first now (rest_of name lines all 1) (rest_of name lines left next) going.written
      (part-same v w now.is_open (lines_between lines next e.at ++ (own ++ after)) (rest_of name lines left next) (sym a.is) h))

  module _ (w : SinkView) (copied : Tail) (front : Wrote v w now copied (lines_between lines next e.at ++ (own ++ after)) (own ++ after)) where
    wrote-front : Wrote u w first copied (rest_of name lines all 1) (own ++ after)
    wrote-front = wrote-both u v w first now copied (rest_of name lines all 1) (rest_of name lines left next) (own ++ after) going.written
        (wrote-same v w now copied (lines_between lines next e.at ++ (own ++ after)) (rest_of name lines left next) (own ++ after) (own ++ after) (sym a.is) refl front)

    -- a failure in the block
    pub part-block : (x : SinkView) → ReceivesPart w x (join_behind copied.is_open (own ++ after)) → ReceivesPart u x (ifdef_text name lines all)
    part-block x h =
        part-whole u x false (rest_of name lines all 1) refl
        (part-after u w x first copied (rest_of name lines all 1) (own ++ after) wrote-front h)

    pub going-on : (x : SinkView) (then : Tail) (behind : List Edit) (end : ℕ) → Wrote w x copied then (own ++ after) after → end ≡ block_end e.at left → behind ≡ behind_block e.at left → Going name lines all u x then behind end
    going-on x then behind end block is eb =
        subst (λ es. Going name lines all u x then es end) (sym eb)
        (subst (λ k. Going name lines all u x then (behind_block e.at left) k) (sym is)
        (let on : e.at ≤ block_end e.at left = a.cut.on in
        let low : 1 ≤ e.at = a.low in
        record {
          low = omega arith;
          high = a.cut.within;
          order = a.cut.order;
          written = wrote-both u w x first copied then (rest_of name lines all 1) (own ++ after) after wrote-front block;
        }))

module _ (name : List ℕ) (lines : List (List ℕ)) (all : List Edit) (u v : SinkView) (now : Tail) (left : List Edit) (next : ℕ) (going : Going name lines all u v now left next) (over : left ≡ []) (count : ℕ) (is : count ≡ length lines) where
  -- behind all blocks
  last : rest_of name lines left next ≡ lines_between lines next (count + 1) ++ []
  last =
      ap (λ es. rest_of name lines es next) over
      ∙ kept-to name lines [] next (length lines + 1) going.low going.high (omega arith) tt
      ∙ ap (λ ms. lines_between lines next (length lines + 1) ++ texts (tagged_behind name [] [] ms)) (nothing-left lines)
      ∙ ap (λ ts. lines_between lines next (length lines + 1) ++ texts ts) (tagged-none name [] [])
      ∙ ap (λ n. lines_between lines next (n + 1) ++ []) (sym is)

  pub part-last : (w : SinkView) → ReceivesPart v w (join_behind now.is_open (lines_between lines next (count + 1) ++ [])) → ReceivesPart u w (ifdef_text name lines all)
  part-last w h =
      part-whole u w false (rest_of name lines all 1) refl
      (part-after u v w first now (rest_of name lines all 1) (rest_of name lines left next) going.written
      (part-same v w now.is_open (lines_between lines next (count + 1) ++ []) (rest_of name lines left next) (sym last) h))

  pub wrote-last : (w : SinkView) (end : Tail) → Wrote v w now end (lines_between lines next (count + 1) ++ []) [] → Receives u w (ifdef_text name lines all)
  wrote-last w end h =
      wrote-whole u w first end (rest_of name lines all 1)
      (wrote-both u v w first now end (rest_of name lines all 1) (rest_of name lines left next) [] going.written
      (wrote-same v w now end (lines_between lines next (count + 1) ++ []) (rest_of name lines left next) [] [] (sym last) refl h)) refl
