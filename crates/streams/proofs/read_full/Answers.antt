-- `read_full` is right: what a read gives is put after what stands there, so the bytes at the front are those that the input gave, in its order.
use Rattle.std.proofs.Common.{◌≡◌, ℕ, ◌+◌, ◌≤◌, List, ◌++◌, length, take, drop, rules, ap, sym, ◌∙◌, subst, append_assoc, drop_at, length-take-le, le_refl}
use Rattle.std.specs.Prelude.{Some, None}
use Rattle.std.specs.declared.option.Option.{Option}
use Rattle.std.specs.Io.KnownBytes.{Consumes}
use Rattle.std.proofs.lemmas.Slice.{take-put_mid_below}
use borrow.Rule.Slice.PartMut.{put_mid, post_of}
use lib.Seq.{take-add, take-append-le}
use Rattle.streams.proofs.read_full.Goals as goal

-- One read after the other.
consumes_both : (old middle new : Option (List ℕ)) (a b : List ℕ) → Consumes old middle a → Consumes middle new b → Consumes old new (a ++ b)
consumes_both None middle new a b h k = tt
consumes_both (Some xs) None new a b h k = absurd h
consumes_both (Some xs) (Some ys) None a b h k = absurd k
consumes_both (Some xs) (Some ys) (Some zs) a b h k = h ∙ ap (λ l. a ++ l) k ∙ sym (append_assoc a b zs)

-- The front of the buffer after n bytes more were put at a.
front : (a k n : ℕ) (xs ys : List ℕ) → a ≤ length xs → n ≤ length ys → take (a + n) (put_mid a k xs ys) ≡ take a xs ++ take n ys
front a k n xs ys within fits =
    let after = post_of a k xs in
    take-add a n (put_mid a k xs ys)
    ∙ ap (λ l. l ++ take n (drop a (put_mid a k xs ys))) (take-put_mid_below a k xs ys a (le_refl a) within)
    ∙ ap (λ l. take a xs ++ take n l) (drop_at (take a xs) (ys ++ after) a (length-take-le a xs within))
    ∙ ap (λ l. take a xs ++ l) (take-append-le n ys after fits)

pub loop-size-preserved : goal.loop-size-preserved
loop-size-preserved g c =
    let l = c.loop-size in
    let put = front l.size _ c.in_ok-n.n l.buf c.read.new.buf l.invariant.in_range c.in_ok-n.ensures.bound.0 in
    let both = consumes_both _ _ _ _ _ l.invariant.bytes c.in_ok-n.ensures.bytes.0 in
    record { in_range = search rules; bytes = subst (Consumes _ _) (sym put) both }
