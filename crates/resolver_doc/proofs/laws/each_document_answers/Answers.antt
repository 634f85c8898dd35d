use Rattle.ring.proofs.FirstRoutes.{ring_or_none}
use Rattle.resolver_doc.proofs.DocumentsAnswer.{documents_answer}
use Rattle.resolver_doc.proofs.laws.each_document_answers.Goals as goal

pub returns : goal.returns
returns c = documents_answer (λ decided needs root nodes within. ring_or_none needs root decided nodes within)
