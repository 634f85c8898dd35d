use Rattle.json_span.proofs.Composing.{array_before, array_text, text_array, object_before, object_text, text_object, arrays_spaced, objects_spaced, front_says}
use Rattle.json_span.proofs.laws.joined_laws.Goals as goal

pub returns : goal.returns
returns g c = record {
  arrays = λ num text vs. (λ s. array_text num text vs s, λ s. text_array num text vs s);
  objects = λ num text es. (λ s. object_text num text es s, λ s. text_object num text es s);
  arrays_before = λ num inside vs x rest. array_before num inside vs x rest;
  objects_before = λ num inside es x rest. object_before num inside es x rest;
  arrays_spaced = λ num. arrays_spaced num;
  objects_spaced = λ num. objects_spaced num;
  fronts = λ num t u v x. front_says num t u v x;
}
