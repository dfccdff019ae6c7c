-- `pages::agree`: each thing that it looks at is wanted, and all of them are enough.
-- Assumes nothing.
use mathlib.Core.Path.{◌≡◌, sym}
use mathlib.Core.Bool.{Bool}
use mathlib.Core.List.{List}
use Prim.Native.Nat.{ℕ, ◌+◌, ◌-◌, ◌/◌, ◌≤◌}
use lib.ListN.{length, take, length-take}
use native.Mathlib.Omega.{arith}
use Rattle.pages.specs.Pages.{page_size, pages_of_def}
use Rattle.pages.proofs.Laws.{Found, found_part, agrees_short, agrees_unfilled, agrees_part, agrees_all, agrees_last, full_pages}
use Rattle.pages.proofs.agree.Goals as goal

-- what the look at the full pages finds
below : (size n pages : ℕ) (t : List ℕ) (r : Bool) → pages ≡ pages_of_def size → n ≤ size → pages ≤ length t
    → Found (take (n / page_size) t) 0 (length (take (n / page_size) t)) page_size r
    → Found t 0 (n / page_size) page_size r
below size n pages t r e h l f =
    found_part t 0 (n / page_size) (n / page_size) page_size r (omega arith) (omega (arith, full_pages size n h)) f

pub returns-then-counts-pages : goal.returns-then-counts-pages
returns-then-counts-pages c =
    let a = c.args in
    sym (agrees_short a.size a.n a.counts.now (omega (arith, c.if-counts-pages.true, c.pages_of-pages.ensures)))

pub slice_bounds-are_all-end : goal.slice_bounds-are_all-end
slice_bounds-are_all-end c =
    let a = c.args in
    omega (
      arith,
      length-take (a.n / page_size) a.counts.now,
      c.if-counts-pages.false,
      c.pages_of-pages.ensures,
      full_pages a.size a.n c.requires.0,
    )

pub returns-then-not-are_all : goal.returns-then-not-are_all
returns-then-not-are_all c =
    let s = c in
    let full = below s.args.size s.args.n c.pages_of-pages.result s.args.counts.now c.are_all.result c.pages_of-pages.ensures s.requires.0
    c.if-counts-pages.false c.are_all.ensures in
    sym (agrees_unfilled s.args.size s.args.n s.args.counts.now s.requires.0 (full.1 c.if-not-are_all.true))

pub returns-then-pages-full : goal.returns-then-pages-full
returns-then-pages-full c =
    let s = c in
    let pages = c.pages_of-pages.ensures in
    let full = below s.args.size s.args.n c.pages_of-pages.result s.args.counts.now c.are_all.result c.pages_of-pages.ensures s.requires.0
    c.if-counts-pages.false c.are_all.ensures in
    sym
    (agrees_all s.args.size s.args.n s.args.counts.now s.requires.0 (omega (arith, c.if-counts-pages.false, pages))
    (full.0 c.if-not-are_all.false) (λ l. absurd (omega (arith, l, c.if-pages-full.true, pages)))
    (λ k h l. absurd (omega (arith, h, l, c.if-pages-full.true, pages))))

pub returns-then-counts-full : goal.returns-then-counts-full
returns-then-counts-full c =
    let s = c in
    let pages = c.pages_of-pages.ensures in
    sym
    (agrees_part s.args.size s.args.n s.args.counts.now s.requires.0 (omega (arith, c.if-pages-full.false, pages)) c.if-counts-full.true)

pub returns : goal.returns
returns c =
    let s = c in
    let a = c.args in
    let pages = c.pages_of-pages in
    let full = below s.args.size s.args.n c.pages_of-pages.result s.args.counts.now c.are_all.result c.pages_of-pages.ensures s.requires.0
    c.if-counts-pages.false c.are_all.ensures in
    agrees_last a.size a.n a.counts.now pages.result c.are_all-2.result pages.ensures s.requires.0
    (omega (arith, c.if-counts-pages.false))
    (full.0 c.if-not-are_all.false) c.if-counts-full.false
    (found_part a.counts.now (a.n / page_size + 1) (pages.result - (a.n / page_size + 1)) pages.result 0 c.are_all-2.result (omega arith) (omega arith)
    c.are_all-2.ensures)
