use Rattle.std.proofs.Common.{◌≡◌, ◌∙◌, ℕ, List, [], ◌∷◌, ◌++◌, map, length, refl, sym, subst}
use Rattle.std.proofs.lemmas.List.{length-map}
use Rattle.std.proofs.lemmas.List.Elements.{All-from_recursion, All-append}
use Rattle.lrc_code.specs.declared.codes.Code.TheVariants.{Wide}
use Rattle.lrc_code.specs.Code.{AreBytes, wide}
use Rattle.lrc_code.specs.Encoding.{HaveLength, IsParity, IsEncoding}
use Rattle.lrc_code.specs.Reduction.{row_at}
use Rattle.lrc_code.proofs.Members.{two_sixes}
use Rattle.lrc_code.proofs.Encodings.{parity_rows, encoding}
use Rattle.lrc_code.proofs.encoding.encode_wide.Goals as goal

pub returns : goal.returns
returns c = λ len h.
    let sources : List (List ℕ) = map (λ s. s.items) c.args.sources.now in
    let six = c.in_ok-first.first in
    let more = c.in_ok-second.second in
    let firsts : List (List ℕ) = six.0.items ∷ six.1.items ∷ six.2.items ∷ six.3.items ∷ six.4.items ∷ six.5.items ∷ [] in
    let seconds : List (List ℕ) = more.0.items ∷ more.1.items ∷ more.2.items ∷ more.3.items ∷ more.4.items ∷ more.5.items ∷ [] in
    let copies : List (List ℕ) = firsts ++ seconds in
    let parities : List (List ℕ) = c.in_ok-px.px.items ∷ c.in_ok-py.py.items ∷ c.in_ok-p0.p0.items ∷ c.in_ok-p1.p1.items ∷ [] in
    let long : length sources ≡ 12 = length-map c.args.sources.now (λ s. s.items) ∙ c.type_inv.sources in
    let is : sources ≡ copies = two_sixes sources long ∙ (λ i. c.in_ok-first.ensures.same i ++ c.in_ok-second.ensures.same i) in
    let bytes = c.in_ok-first.ensures.bytes in
    let more_bytes = c.in_ok-second.ensures.bytes in
    subst (λ t. IsEncoding wide len t (copies ++ parities)) (sym is)
    (encoding Wide len copies c.in_ok-px.px.items c.in_ok-py.py.items c.in_ok-p0.p0.items c.in_ok-p1.p1.items refl
    (subst (HaveLength len) is h)
    (All-append AreBytes firsts seconds
    (All-from_recursion AreBytes firsts (bytes.0, (bytes.1, (bytes.2, (bytes.3, (bytes.4, (bytes.5, tt)))))))
    (All-from_recursion AreBytes seconds
    (more_bytes.0, (more_bytes.1, (more_bytes.2, (more_bytes.3, (more_bytes.4, (more_bytes.5, tt))))))))
    (record {
      ix = subst (λ t. IsParity (row_at (parity_rows Wide) 0) t len c.in_ok-px.px.items) is (c.in_ok-px.ensures len h);
      iy = subst (λ t. IsParity (row_at (parity_rows Wide) 1) t len c.in_ok-py.py.items) is (c.in_ok-py.ensures len h);
      i0 = subst (λ t. IsParity (row_at (parity_rows Wide) 2) t len c.in_ok-p0.p0.items) is (c.in_ok-p0.ensures len h);
      i1 = subst (λ t. IsParity (row_at (parity_rows Wide) 3) t len c.in_ok-p1.p1.items) is (c.in_ok-p1.ensures len h);
    }))
